pub mod FieldFacts
pub mod FaultFacts
pub mod OrderFacts
pub mod ReadFacts
pub mod RecordFacts
pub mod SaidFacts
