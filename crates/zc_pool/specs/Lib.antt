pub mod EventAnswers
pub mod Carried
pub mod Importing
pub mod Opened
pub mod Ran
pub mod Running
