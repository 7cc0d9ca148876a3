-- Lists and loops
pub mod Cases
pub mod Members
pub mod ListElements
pub mod Loops
pub mod MultiLoops
-- Tokens: keys, strings, numbers, dates and times
pub mod Codes
pub mod TokenLaws
pub mod KeyLaws
pub mod FoldLaws
pub mod MultiLaws
pub mod PieceReadAgain
pub mod MultiReadAgain
pub mod DigitLaws
pub mod NumberLaws
pub mod NumberReadAgain
pub mod NumberEnds
pub mod DateReadAgain
-- Values and lines
pub mod GapLaws
pub mod ScalarLaws
pub mod ValueLaws
pub mod ValueReadAgain
pub mod MembersReadAgain
pub mod LineLaws
pub mod TextLaws
pub mod LineSound
pub mod ValueEdges
pub mod StepLaws
pub mod PutBefore
-- The tokens that the code appends
pub mod NotedTokens
pub mod NotedValues
pub mod NotedElements
pub mod NotedLines
-- The decoded values of tokens
pub mod EscapeRuns
pub mod Escapes
pub mod LineContents
pub mod DelimitedContents
pub mod DecodedSpans
pub mod OwnContents
pub mod Tables
pub mod BasicLoop
-- Worked examples
pub mod StandardFacts
pub mod FirstLines
