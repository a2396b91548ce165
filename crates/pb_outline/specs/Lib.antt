pub mod Places
pub mod Scopes
pub mod Positions
pub mod Extents
pub mod Declares
