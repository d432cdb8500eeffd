pub mod KeptFacts
pub mod PartFacts
pub mod AnswerFacts
pub mod FeedFacts
pub mod HoldFacts
