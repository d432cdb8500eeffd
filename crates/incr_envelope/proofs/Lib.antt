pub mod WalkFacts
pub mod TouchedFacts
pub mod ZoneFacts
pub mod KeptFacts
