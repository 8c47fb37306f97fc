pub mod Forms
pub mod Lines
pub mod Pools
pub mod Spelling
pub mod Words
