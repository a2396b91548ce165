pub mod Choices
pub mod CodeRuns
pub mod Draws
pub mod Recorded
pub mod Schedule
