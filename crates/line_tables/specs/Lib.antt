pub mod Draft
pub mod Faults
pub mod LineFile
pub mod Names
pub mod Points
pub mod Slope
pub mod Line
