pub mod Lends
pub mod Parts
pub mod Rows
pub mod Runs
pub mod States
pub mod Texts
