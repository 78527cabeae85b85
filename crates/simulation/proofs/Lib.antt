pub mod Columns
pub mod Equations
pub mod LineValues
pub mod OutputsShown
pub mod RowBounds
pub mod RowValues
pub mod Showing
