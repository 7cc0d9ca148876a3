pub mod ListedLemmas
pub mod RecordLemmas
pub mod ShownLemmas
