pub mod Folders
pub mod Inputs
pub mod Metadata
pub mod Reading
pub mod Roots
pub mod RustInputs
pub mod Texts
pub mod Workspaces
