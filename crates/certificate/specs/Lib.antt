pub mod Lines
pub mod Reading
pub mod Rows
pub mod Rules
pub mod Texts
pub mod Walk
