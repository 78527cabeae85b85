pub mod Decimals
pub mod Parts
pub mod Words
