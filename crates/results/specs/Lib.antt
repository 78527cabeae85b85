pub mod Quotients
pub mod Results
