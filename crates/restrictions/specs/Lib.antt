pub mod Commands
pub mod Edits
pub mod Force
pub mod Ids
pub mod Padded
pub mod Seats
pub mod Words
