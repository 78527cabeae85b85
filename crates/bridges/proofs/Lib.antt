pub mod BridgeArgumentsMean
pub mod BridgeLabels
pub mod BridgeSteps
pub mod BridgedCall
pub mod BridgedSpectra
pub mod Bridging
pub mod UnhalvedLabels
