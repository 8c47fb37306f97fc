pub mod Catalogue
pub mod CatalogueReading
pub mod NameSet
pub mod Names
pub mod Reach
pub mod Reading
pub mod Spelling
