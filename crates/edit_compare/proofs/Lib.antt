-- Two documents compared
pub mod PartNumbers
pub mod Besides
pub mod BesideWalk
pub mod GrownNames
pub mod GrownTrees
pub mod ApartViews
pub mod ReplacedEntries
pub mod UnorderedViews
pub mod UnorderedNodes
-- The tables and arrays that stay when an item is removed
pub mod RemainingParts
pub mod RemainingSteps
pub mod LostParts
pub mod LeftAround
pub mod RemovedTrees
pub mod LosesViews
pub mod LosesParts
pub mod HasLost
