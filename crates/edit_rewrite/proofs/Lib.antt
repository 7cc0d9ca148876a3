-- The assertions of statements, and their model nodes
pub mod MemberTurns
-- A value set at a place
pub mod SetBytes
-- Two documents compared
pub mod GrownInline
-- The positions of statements
pub mod Ways
pub mod KeyWays
pub mod WayCounts
pub mod TakenStatements
pub mod StatedLines
-- A member inserted on a line of its own
pub mod SuffixTexts
pub mod StatementSuffixes
pub mod InsertedLines
pub mod InsertedTexts
pub mod EntryChoices
-- An entry replaced
pub mod EntryParts
pub mod EntryCuts
pub mod PairOffsetLemmas
pub mod NamedMembers
pub mod LineEntries
pub mod InnerPairs
pub mod ClosestPairs
pub mod ClosestTables
pub mod ValueAssertions
pub mod ValueSuffixes
pub mod InlineRows
pub mod InnerTurns
pub mod InnerRows
-- Inside an array or an inline table
pub mod SlotLaws
pub mod SlotEnds
pub mod SlotTurns
pub mod SlotKeys
pub mod SlotSteps
-- An item removed
pub mod LeftLines
pub mod LeftTexts
pub mod AroundValues
-- Worked examples
pub mod InlineSuffixes
