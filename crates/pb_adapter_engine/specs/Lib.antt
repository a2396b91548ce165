pub mod Adapters
pub mod Waiting
