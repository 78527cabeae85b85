pub mod Turns
pub mod Widths
