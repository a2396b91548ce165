pub mod Changed
pub mod Objects
pub mod Plans
pub mod Sayings
pub mod View
