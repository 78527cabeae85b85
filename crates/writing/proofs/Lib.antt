pub mod ReadBack
pub mod Writings
pub mod LineFields
