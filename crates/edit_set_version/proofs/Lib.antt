pub mod Greater
pub mod FolderLemmas
pub mod TablePlaces
pub mod Clear
pub mod EntriesStay
pub mod WrittenPlaces
pub mod DependentLaw
pub mod PointedLemmas
pub mod NameLemmas
mod BumpRows
pub mod PlanRows
mod PlanTexts
pub mod ReachedFolders
pub mod FolderSameness
pub mod NumberLemmas
pub mod DependentLemmas
pub mod ChoiceLemmas
pub mod GroupedBumps
pub mod ProjectMembers
pub mod ProjectRoot
pub mod FolderParents
pub mod ApartBumps
pub mod LineLists
pub mod ManifestLines
pub mod LinesTogether
pub mod OwnBump
pub mod EditsApart
pub mod EditsValues
pub mod DistinctInputs
pub mod OutputLists
pub mod EditsStand
pub mod VersionLemmas
pub mod PlanLemmas
pub mod InputPaths
mod InputManifests
pub mod PlanParts
pub mod MadeVersions
