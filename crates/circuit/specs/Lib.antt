pub mod CircuitCall
