pub mod Describing
pub mod Devices
pub mod Problems
pub mod Forms
