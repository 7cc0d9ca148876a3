pub mod AbsentLemmas
mod NameListLemmas
mod HeldBackNoteLemmas
pub mod ArgsLemmas
pub mod CheckLemmas
pub mod CommandCases
pub mod CommandLemmas
pub mod RunLemmas
pub mod ClapMessageLemmas
pub mod TwiceLemmas
pub mod PlanLemmas
pub mod OrderLemmas
pub mod CountLemmas
pub mod IndexFaults
pub mod LockLemmas
pub mod LookupLemmas
mod StagingLemmas
pub mod UpgradeLemmas
pub mod UpgradeCauseLemmas
mod UpgradeErrorLemmas
mod RevisionLemmas
mod PlannedRowLemmas
mod RevisedOrderLemmas
pub mod SetVersionLemmas
pub mod CopyLemmas
mod DeliveryLemmas
mod EffectLemmas
pub mod DryRuns
mod NameLemmas
mod NoteLemmas
mod PartLemmas
mod PolicyLemmas
pub mod ReplyCounts
pub mod ReplyLemmas
pub mod ReplyResults
pub mod UpgradeEffectLemmas
pub mod VersionEffectLemmas
pub mod SubcommandLemmas
