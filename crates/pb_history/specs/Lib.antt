pub mod Ends
pub mod Entries
pub mod Kept
pub mod Leads
pub mod Positions
pub mod Replays
pub mod Traces
