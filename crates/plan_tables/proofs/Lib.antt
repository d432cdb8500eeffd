pub mod BoundFacts
pub mod DraftFacts
pub mod FileFacts
mod Rows
