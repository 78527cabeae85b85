pub mod Clearing
pub mod Pruning
pub mod Searching
pub mod Sets
pub mod SetsBySize
