pub mod SecondLines
pub mod GateNumbers
pub mod GateFormsMeant
pub mod FourFields
pub mod GatesWritten
