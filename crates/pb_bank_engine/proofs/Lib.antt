pub mod Kept
pub mod LineParts
pub mod SessionParts
pub mod Told
