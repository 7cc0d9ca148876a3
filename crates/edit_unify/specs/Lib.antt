pub mod Ranges
pub mod Stands
pub mod Groups
pub mod Leaders
pub mod Unified
pub mod Apart
pub mod Firsts
