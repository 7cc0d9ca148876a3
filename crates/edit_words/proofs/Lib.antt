pub mod CommandFacts
pub mod CommandLemmas
pub mod FilledLemmas
pub mod ArgSpecLemmas
