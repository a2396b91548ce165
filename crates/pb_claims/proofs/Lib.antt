pub mod Amounts
pub mod Bounds
pub mod FreeRunPeaks
pub mod GreatestRuns
pub mod OnePass
pub mod Rows
pub mod Walks
