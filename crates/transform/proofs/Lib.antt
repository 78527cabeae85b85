pub mod Butterflies
pub mod Halving
pub mod Merging
pub mod Parity
pub mod Spectra
pub mod Terms
