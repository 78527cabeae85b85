pub mod ReportLaws
pub mod PrintedLabels
