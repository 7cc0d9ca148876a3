pub mod FailurePlaces
