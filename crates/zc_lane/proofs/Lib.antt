pub mod FoundLaws
pub mod NextLaws
pub mod PlacedLaws
pub mod ReadyLaws
pub mod TailLaws
pub mod TreeLaws
