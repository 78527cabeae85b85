pub mod Readings
pub mod Exact
