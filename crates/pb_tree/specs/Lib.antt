pub mod Measure
pub mod Syntax
pub mod View
