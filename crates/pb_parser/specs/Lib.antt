pub mod Nesting
pub mod Limits
pub mod Measured
pub mod Parts
