pub mod Answers
pub mod Moves
pub mod Sessions
pub mod Values
