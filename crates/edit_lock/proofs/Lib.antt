pub mod CallLemmas
pub mod IndexLemmas
pub mod ListLemmas
pub mod RightLemmas
