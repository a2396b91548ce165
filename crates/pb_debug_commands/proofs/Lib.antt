pub mod Cutting
pub mod Kept
pub mod NumberedLines
pub mod Outputs
pub mod Spellings
pub mod Trims
