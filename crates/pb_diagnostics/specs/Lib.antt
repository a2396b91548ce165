pub mod Actions
pub mod Diagnostics
pub mod Ranges
