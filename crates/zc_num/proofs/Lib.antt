pub mod Changes
pub mod Each
pub mod Edits
pub mod Entries
pub mod Found
pub mod LogAreas
pub mod Pieces
pub mod Ranges
