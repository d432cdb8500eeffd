pub mod LevelFacts
