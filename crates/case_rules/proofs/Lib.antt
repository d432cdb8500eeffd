pub mod CaseFacts
