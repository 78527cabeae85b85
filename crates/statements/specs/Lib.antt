pub mod FaultKinds
pub mod Items
pub mod LineForms
pub mod Lines
