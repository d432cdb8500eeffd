pub mod DrawFacts
pub mod LineFacts
pub mod ScriptFacts
