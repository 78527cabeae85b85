pub mod Bits
pub mod Cases
pub mod TruthValues
pub mod TwoBits
