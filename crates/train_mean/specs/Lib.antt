pub mod Gradients
pub mod Windows
