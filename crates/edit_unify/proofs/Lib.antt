pub mod ApartLemmas
pub mod FirstLemmas
pub mod GroupLemmas
pub mod LeaderLemmas
pub mod NameLemmas
pub mod OneTextLemmas
pub mod StandLemmas
pub mod UnifyLemmas
