pub mod Emitted
pub mod Generate
pub mod Lines
pub mod Sizes
