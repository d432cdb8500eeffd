pub mod Allowances
pub mod Arrivals
pub mod Laws
pub mod Progress
pub mod Rows
pub mod WholeRuns
