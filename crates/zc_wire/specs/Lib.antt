pub mod Cursor
pub mod Fault
pub mod Fields
pub mod Numbers
