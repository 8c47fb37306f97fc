pub mod Acked
pub mod Events
pub mod Heard
pub mod Points
pub mod Since
