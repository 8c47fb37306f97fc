pub mod ChainLaws
pub mod Loops
