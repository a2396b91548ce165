pub mod Answers
pub mod Faults
pub mod Inputs
pub mod Parts
pub mod Statuses
