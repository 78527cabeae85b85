pub mod Demanded
pub mod PlanLaws
pub mod PlansBefore
