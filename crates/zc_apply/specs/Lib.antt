pub mod Alike
pub mod Found
pub mod InParts
pub mod Jobs
pub mod Named
