pub mod Entries
pub mod SearchStates
pub mod StatementOffsets
pub mod Remainders
pub mod PairOffsets
pub mod RemoveText
pub mod Inner
