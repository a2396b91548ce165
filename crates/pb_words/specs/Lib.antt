pub mod Read
pub mod Together
pub mod Tools
