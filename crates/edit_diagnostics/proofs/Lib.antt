pub mod FailureLemmas
