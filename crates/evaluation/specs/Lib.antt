pub mod GateRules
