pub mod Coefficients
pub mod Lists
