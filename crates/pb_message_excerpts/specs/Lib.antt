pub mod Characters
pub mod Places
pub mod Spelling
