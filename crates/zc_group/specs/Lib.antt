pub mod Chosen
pub mod Committed
pub mod Counted
pub mod Created
pub mod Imported
pub mod Kept
pub mod Rooted
pub mod Spelled
