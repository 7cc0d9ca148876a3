pub mod ListLemmas
pub mod GroupLemmas
pub mod CorrectionLemmas
pub mod LookupLemmas
