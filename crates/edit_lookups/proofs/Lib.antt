pub mod CachedLemmas
pub mod CutLemmas
pub mod LineLemmas
pub mod ShownLemmas
pub mod UserinfoLemmas
