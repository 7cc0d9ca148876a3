pub mod NameSetLemmas
pub mod ReportFacts
pub mod TableLemmas
