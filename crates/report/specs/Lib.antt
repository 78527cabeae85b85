pub mod ReportCall
pub mod Printed
