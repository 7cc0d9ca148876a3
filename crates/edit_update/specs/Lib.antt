pub mod EntryUpdates
pub mod UpdatedTexts
pub mod FinalValueViews
pub mod Features
pub mod Removals
pub mod RemovedEntries
