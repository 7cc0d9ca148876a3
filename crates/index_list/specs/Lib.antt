pub mod EntryLists
pub mod Listed
