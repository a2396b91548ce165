pub mod Circles
pub mod Needs
pub mod Nests
pub mod Orders
pub mod Parts
pub mod Scarce
pub mod Standing
pub mod Waiting
