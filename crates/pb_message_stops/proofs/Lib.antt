pub mod Hints
pub mod StopLines
