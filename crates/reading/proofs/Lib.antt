pub mod AgreeingRows
pub mod Exactness
pub mod Fractions
pub mod Totals
pub mod Values
