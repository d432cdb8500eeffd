mod BlockFacts
pub mod ErrFacts
pub mod LineFacts
pub mod ReadFacts
pub mod TextFacts
pub mod Written
