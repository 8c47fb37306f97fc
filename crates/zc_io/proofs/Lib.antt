pub mod Names
pub mod Stocks
