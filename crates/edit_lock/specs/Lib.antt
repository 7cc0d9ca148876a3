pub mod CallsFile
pub mod LockFile
pub mod ValidCalls
pub mod AdaptedCalls
pub mod Views
