pub mod MapStates
pub mod MapBytes
pub mod Sound
pub mod States
