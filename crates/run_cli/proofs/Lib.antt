pub mod ServeFacts
pub mod OnceFacts
pub mod CertFacts
pub mod SessionFacts
pub mod GenFacts
pub mod FormFacts
mod TimeFacts
