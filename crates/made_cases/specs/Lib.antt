pub mod Draws
pub mod Files
pub mod Commands
pub mod Kept
pub mod Made
