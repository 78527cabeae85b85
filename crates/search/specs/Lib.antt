pub mod LabelArrays
pub mod Sets
pub mod Steps
