mod UpdateFacts
pub mod EachOnce
pub mod Updates
pub mod ItemSteps
pub mod MissingTables
pub mod RemovalFacts
pub mod StaleElements
pub mod StaleTurns
pub mod StayingStrings
pub mod RemovedTables
pub mod RemovalSteps
