pub mod Sizes
pub mod Undoing
