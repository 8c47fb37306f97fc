pub mod Census
pub mod Checks
pub mod Passed
pub mod Places
pub mod Spread
pub mod Words
