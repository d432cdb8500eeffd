pub mod GradientFacts
pub mod PullFacts
pub mod WindowFacts
