pub mod Profile
pub mod Levels
pub mod Pieces
pub mod Breaks
pub mod Course
pub mod Changes
pub mod Ranks
