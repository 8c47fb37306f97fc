pub mod ReadAnswers
pub mod Blocks
pub mod Checked
pub mod Following
pub mod Found
pub mod Gathering
pub mod Seen
pub mod Steps
