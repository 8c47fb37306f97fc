pub mod Blocks
pub mod Lending
pub mod Limits
pub mod Ordered
pub mod Words
