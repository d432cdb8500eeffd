pub mod DraftFacts
pub mod FileFacts
pub mod PointFacts
pub mod RuleFacts
mod Rows
