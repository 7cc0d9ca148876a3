pub mod RestrictedLemmas
pub mod EntryLemmas
pub mod HoldLemmas
