pub mod Loops
pub mod SlotLaws
pub mod FileParts
pub mod NameLaws
pub mod EntryLaws
pub mod FileLaws
pub mod CatalogueLaws
pub mod DatasetLaws
