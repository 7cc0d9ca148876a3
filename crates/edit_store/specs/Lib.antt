pub mod Climbs
pub mod Host
pub mod Locks
pub mod Memory
pub mod Store
pub mod Turns
