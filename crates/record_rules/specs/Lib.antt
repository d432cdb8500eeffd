pub mod Fields
pub mod Records
pub mod Faults
pub mod Rules
