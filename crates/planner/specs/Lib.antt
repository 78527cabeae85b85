pub mod PlanCall
pub mod Demand
pub mod PlansBefore
