pub mod Passed
pub mod Reads
pub mod SkippedValue
pub mod SmallNumbers
pub mod Taken
