pub mod Buffers
pub mod Commands
pub mod Lines
pub mod Spellings
pub mod View
