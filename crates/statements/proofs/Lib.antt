pub mod EveryFault
pub mod LineNumbers
pub mod FormsMeant
pub mod UnsignedWeights
