pub mod ListCalls
pub mod TextCalls
pub mod SpectraCircuits
pub mod PlansMeant
pub mod AllDemands
