pub mod Debugs
pub mod Live
