pub mod Errors
pub mod ExitCodes
pub mod FirstCauses
pub mod Paths
