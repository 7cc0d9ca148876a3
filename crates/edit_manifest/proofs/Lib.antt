pub mod Faults
pub mod Heights
pub mod MissingItems
pub mod SearchLemmas
pub mod SetLemmas
mod Texts
pub mod RecordVersions
pub mod EntryPlaces
mod Elements
pub mod MembersApart
pub mod EntriesApart
pub mod TablesAfter
pub mod EntriesAfter
pub mod EntryReasons
