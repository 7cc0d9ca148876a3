pub mod HoldsByName
pub mod RestrictedIndex
pub mod Restrictions
pub mod VersionTests
