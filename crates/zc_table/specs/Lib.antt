pub mod Counts
pub mod Growing
pub mod Plain
pub mod TableBytes
