pub mod AddedFacts
pub mod ArrivalFacts
pub mod CallFacts
pub mod EndedFacts
pub mod RowFacts
pub mod StretchFacts
