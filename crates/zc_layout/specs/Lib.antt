pub mod Creation
pub mod Layout
pub mod Outcomes
pub mod Standing
