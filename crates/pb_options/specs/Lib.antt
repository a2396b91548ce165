pub mod Codes
pub mod Lends
