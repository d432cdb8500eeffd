pub mod AheadFacts
pub mod LineFacts
pub mod ReadFacts
pub mod RowFacts
pub mod RuleFacts
pub mod SplitFacts
pub mod WalkFacts
