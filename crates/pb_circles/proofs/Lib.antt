pub mod Bounds
pub mod CircleLemmas
pub mod Deadlocks
pub mod LinkLemmas
pub mod Lists
pub mod Paths
pub mod Requests
