pub mod Intervals
pub mod Searches
pub mod Walks
