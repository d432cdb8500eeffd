pub mod EditFacts
pub mod FindFacts
pub mod ForceFacts
pub mod KeptFacts
pub mod PaddedFacts
pub mod PlaceFacts
pub mod SeatFacts
pub mod WordFacts
