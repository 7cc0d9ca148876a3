pub mod RankedEntryLemmas
pub mod FirstLemmas
pub mod RankLemmas
pub mod PlaceLemmas
pub mod ChoiceLemmas
pub mod LastLemmas
pub mod CacheLemmas
