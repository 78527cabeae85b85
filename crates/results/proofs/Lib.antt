pub mod Copies
pub mod Quotients
