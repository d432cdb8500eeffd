pub mod Bounds
pub mod Calls
pub mod Draft
pub mod Faults
pub mod Limits
pub mod Plan
pub mod PlanFile
pub mod Sections
