pub mod Ends
pub mod FloatFree
pub mod Kept
pub mod Renames
