pub mod Exact
pub mod Next
