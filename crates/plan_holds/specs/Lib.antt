pub mod HoldNotes
pub mod RowNames
