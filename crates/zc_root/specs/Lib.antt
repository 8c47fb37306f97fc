pub mod Body
pub mod Reading
pub mod Root
pub mod Slot
