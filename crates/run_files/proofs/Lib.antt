pub mod ToldFacts
mod LoadFacts
mod TextFacts
