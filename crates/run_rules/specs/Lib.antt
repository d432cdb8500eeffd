pub mod Caps
pub mod Drives
pub mod Grids
pub mod Laws
pub mod Runs
pub mod Speeds
pub mod StepRules
pub mod Walks
