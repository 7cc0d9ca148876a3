-- Requirements as texts
pub mod Texts
pub mod ComparatorTexts
pub mod ComparatorReadings
pub mod Shapes
pub mod RaiseLemmas
-- The laws of upgrading a requirement
pub mod FixedTexts
pub mod Narrows
pub mod ReachLaws
pub mod Dashes
pub mod Forms
pub mod PreReleases
pub mod Cuts
pub mod NoPlus
pub mod Outcomes
pub mod UpgradeLaws
-- The versions that a requirement matches, and the greatest of them
pub mod MatchLemmas
pub mod Greatests
pub mod Orders
pub mod Offers
pub mod Builds
pub mod Lands
pub mod QualifyingEntries
pub mod GreatestEntries
-- Floors and levels
pub mod Readable
pub mod LowerLemmas
pub mod FloorLemmas
pub mod FloorReadings
pub mod FilteredGreatests
pub mod LevelLaws
-- Increments and crate specifications
pub mod Steps
mod JoinedTexts
-- Worked examples
mod WorkedFacts
mod WorkedRows
