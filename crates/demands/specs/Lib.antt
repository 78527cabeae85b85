pub mod Tests
pub mod Refusals
pub mod DemandOne
pub mod DemandTwo
pub mod Demands
