-- The table of nodes
pub mod Views
pub mod MemberViews
-- The assertions of statements, and their model nodes
pub mod AssertedModels
pub mod NewAssertions
pub mod MemberAssertions
pub mod HeaderFronts
pub mod KeyPlaces
pub mod Arrays
-- The walk over tokens
pub mod KeyWalks
pub mod KeySpans
pub mod NumberTokens
pub mod MultiTokens
pub mod BeforeValues
pub mod WalkedValues
pub mod WalkedHolders
pub mod WalkedHeaders
pub mod WalkedLines
pub mod TextTokens
-- Trees and documents
pub mod ShownTrees
pub mod ShownForms
pub mod Documents
-- Values replaced by literals
pub mod SplicedTexts
pub mod SortedRanges
pub mod ValueRanges
pub mod LocatedEdits
pub mod SortedRewrites
pub mod ReplacementLaws
-- Places that exactly one statement names
pub mod NodeStatements
pub mod NodeAnswers
pub mod AloneTurns
-- Two documents compared
pub mod ContentViews
pub mod Wholes
pub mod WholeDocuments
pub mod SameParts
pub mod ShownValues
pub mod OnceLists
pub mod ShownItems
pub mod EntryTrees
pub mod EntryPartViews
-- Worked examples
pub mod FromReader
pub mod StandardKeys
pub mod StandardValues
pub mod StandardTables
pub mod StandardInline
pub mod EditFacts
pub mod EntryFacts
pub mod InsertFacts
pub mod RemoveFacts
-- The tables and arrays that stay when an item is removed
pub mod RemainingNodes
