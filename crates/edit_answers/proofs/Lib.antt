pub mod BodyLemmas
mod BoolLemmas
pub mod ChangeLemmas
mod FollowLemmas
mod GroupLemmas
pub mod LineLemmas
pub mod ListLemmas
mod PruneLemmas
pub mod PutLemmas
mod ReportLemmas
pub mod SettleLemmas
pub mod TableLemmas
pub mod TextLemmas
pub mod VersionLemmas
