pub mod Lines
pub mod Dialogues
pub mod Sessions
pub mod Feeding
