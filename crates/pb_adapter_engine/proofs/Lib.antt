pub mod AdapterLemmas
pub mod LaunchLemmas
pub mod WaitingLemmas
