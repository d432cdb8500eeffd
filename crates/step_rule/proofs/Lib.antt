pub mod BrakeFacts
pub mod HillFacts
pub mod MonotoneFacts
pub mod SpanFacts
