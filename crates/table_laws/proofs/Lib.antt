pub mod LawFacts
pub mod PartFacts
pub mod ToyFacts
