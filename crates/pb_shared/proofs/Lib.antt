pub mod ArmLooks
pub mod LegalCalls
pub mod SpareStretches
pub mod TakenMarks
pub mod Turns
