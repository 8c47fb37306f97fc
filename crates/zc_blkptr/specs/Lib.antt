pub mod Digest
pub mod Ptr
pub mod PtrField
