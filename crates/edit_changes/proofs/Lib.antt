-- A value set at a place
pub mod NewValues
pub mod SetValues
