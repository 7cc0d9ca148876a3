-- The table of nodes
pub mod NameLists
pub mod ShapedStrings
-- The assertions of statements, and their model nodes
pub mod SamePlace
pub mod SamePlaces
pub mod Below
pub mod ModelNodes
pub mod ModelTargets
pub mod KeyFronts
pub mod MoreAssertions
pub mod MoreMembers
pub mod TakenPairs
pub mod ArrayCounts
pub mod Parts
-- The walk over tokens
pub mod Ends
pub mod Walks
pub mod WalkSteps
pub mod WalkEnds
pub mod WalkedTokens
-- Trees and documents
pub mod Trees
pub mod Shallow
pub mod PieceLaws
-- Values replaced by literals
pub mod LiteralLaws
pub mod LiteralBytes
pub mod NewItemTexts
pub mod ThinnedForms
pub mod ThinnedLines
pub mod ThinnedViews
pub mod NothingBelow
pub mod PlainValues
pub mod ReplacedTree
pub mod ReplacedStrings
pub mod SwappedTexts
pub mod UniqueValues
pub mod FineValues
pub mod ReplacedDocuments
-- A value set at a place
pub mod WidenedForms
pub mod WidenedLists
pub mod WidenedViews
-- Places that exactly one statement names
pub mod NamedPairs
pub mod NamedHeads
pub mod HeadedPlaces
pub mod PairedPlaces
pub mod AlonePlaces
pub mod OnlyMembers
pub mod OneStatements
-- Two documents compared
pub mod Keyed
pub mod EditedDocuments
-- A member inserted on a line of its own
pub mod Choices
-- An entry replaced
pub mod LonePairs
pub mod TablePairs
-- An item removed
pub mod RisingValues
pub mod Innermost
-- Worked examples
pub mod ReplaceFacts
pub mod OnTexts
pub mod OverLinesFacts
pub mod LeftFacts
-- The tables and arrays that stay when an item is removed
pub mod Asserters
pub mod ValueAsserters
pub mod AssertedWays
pub mod ElementWays
pub mod StayingWays
