pub mod Acceptance
pub mod Assembling
pub mod CircuitLines
pub mod Refusals
pub mod CircuitsWritten
pub mod AcceptedTexts
pub mod NarrowGates
pub mod UnsignedOutputs
