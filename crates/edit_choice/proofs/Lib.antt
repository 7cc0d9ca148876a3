pub mod ChoiceLemmas
pub mod LookupLemmas
pub mod PartLemmas
pub mod ParsingLemmas
