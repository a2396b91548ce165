pub mod Schedules
pub mod States
