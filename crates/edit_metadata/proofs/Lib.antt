pub mod ElementLoop
pub mod FirstMember
pub mod Ids
pub mod InputLemmas
mod InputRows
pub mod MemberPaths
pub mod RustInputs
pub mod UniqueWorkspaces
pub mod Values
pub mod Zipped
