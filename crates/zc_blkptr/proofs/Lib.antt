pub mod PtrLaws
pub mod Spelling
