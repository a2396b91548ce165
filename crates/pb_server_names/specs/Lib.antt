pub mod Values
pub mod Asked
pub mod Answers
pub mod Symbols
pub mod Completions
