pub mod ShownRows
pub mod Table
pub mod Widths
pub mod Applied
pub mod Messages
pub mod NameSets
