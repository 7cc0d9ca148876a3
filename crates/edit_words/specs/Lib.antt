pub mod CommandLine
pub mod Filled
pub mod Rules
pub mod SetVersionLine
pub mod Tables
