pub mod CircuitLaws
