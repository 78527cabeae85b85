pub mod CircuitTexts
pub mod Examples
pub mod Notes
