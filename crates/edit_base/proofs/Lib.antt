pub mod FirstCauseLemmas
pub mod PathParts
