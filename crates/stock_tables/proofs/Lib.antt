pub mod CurveFacts
pub mod DocumentFacts
pub mod ElementFacts
pub mod KeyFacts
pub mod LawFacts
pub mod MotionFacts
pub mod RowFacts
pub mod ValueFacts
