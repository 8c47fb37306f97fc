pub mod Stream
pub mod Stock
pub mod Calls
pub mod Memory
pub mod GivenBack
pub mod Slots
pub mod HandOut
pub mod MemoryShelf
