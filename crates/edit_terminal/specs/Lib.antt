pub mod Shown
pub mod Styles
pub mod Lines
pub mod Rows
pub mod Report
