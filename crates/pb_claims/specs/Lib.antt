pub mod Fits
pub mod Inferred
