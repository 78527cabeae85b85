pub mod LabelOrder
pub mod Marking
pub mod Rising
pub mod Signatures
pub mod Table
