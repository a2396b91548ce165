pub mod Each
pub mod Lookups
pub mod Readings
pub mod FloatFree
