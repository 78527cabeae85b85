pub mod Descriptions
pub mod ProblemRows
pub mod TextKinds
pub mod Forms
