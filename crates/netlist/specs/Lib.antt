pub mod CircuitText
pub mod Circuits
pub mod Heads
pub mod Parsing
pub mod Places
pub mod WellFormed
pub mod CircuitArrays
