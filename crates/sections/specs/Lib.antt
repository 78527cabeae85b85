pub mod FaultLines
pub mod Sections
