pub mod Ranks
pub mod Ranking
pub mod Choices
pub mod CachedAnswer
pub mod RegistryAnswers
pub mod IndexCache
