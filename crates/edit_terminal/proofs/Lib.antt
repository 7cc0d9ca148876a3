pub mod LineLemmas
pub mod ReportLemmas
pub mod RowLemmas
pub mod ShowsLemmas
