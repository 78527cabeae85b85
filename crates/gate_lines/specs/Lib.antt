pub mod GateItems
pub mod LinesThere
pub mod GateLines
pub mod GateForms
