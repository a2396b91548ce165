pub mod Calls
pub mod Explained
pub mod Kept
