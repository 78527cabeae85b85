pub mod Spectrum
pub mod Steps
