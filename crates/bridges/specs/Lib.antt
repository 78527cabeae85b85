pub mod BridgeArguments
pub mod Bridges
