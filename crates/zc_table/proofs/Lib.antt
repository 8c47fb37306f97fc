pub mod EntryLaws
pub mod ReadLoops
pub mod RegionLaws
pub mod TableLaws
