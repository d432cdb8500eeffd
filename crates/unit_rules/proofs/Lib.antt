pub mod DigitFacts
pub mod DivisorFacts
pub mod FloorFacts
pub mod KnownFacts
pub mod RootFacts
pub mod WholeFacts
