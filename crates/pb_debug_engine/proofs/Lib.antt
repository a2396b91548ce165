pub mod DebugLemmas
pub mod LiveLemmas
pub mod PartLemmas
pub mod SessionLemmas
