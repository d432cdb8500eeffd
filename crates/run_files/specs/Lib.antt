pub mod Statuses
pub mod Exits
pub mod Files
pub mod CaseTexts
pub mod Loads
pub mod ReaderLaws
