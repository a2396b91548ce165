pub mod Lines
pub mod Searches
pub mod Walks
