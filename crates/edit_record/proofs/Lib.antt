pub mod Entries
pub mod CopiedLists
mod EntryLemmas
pub mod SampleEntries
mod ReadFacts
mod WriteFacts
pub mod RelativeTexts
pub mod RelativeAgain
mod NewMembers
mod MembersRead
pub mod RoundTrip
