pub mod CachePaths
pub mod CachedTexts
pub mod ControlEscapes
pub mod Lookups
pub mod UserinfoAddresses
