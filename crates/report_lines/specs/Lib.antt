pub mod ReportLines
pub mod Steps
