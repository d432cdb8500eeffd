pub mod RuleFacts
pub mod SoundFacts
pub mod CompleteFacts
pub mod OnceFacts
pub mod ExistFacts
pub mod FaultFacts
pub mod StepFacts
pub mod AnswerFacts
