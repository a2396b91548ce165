pub mod Executions
pub mod Made
pub mod Outcomes
pub mod RecordLaws
pub mod Records
pub mod RunLaws
pub mod Runs
