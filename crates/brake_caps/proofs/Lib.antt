pub mod ListFacts
pub mod NumberFacts
