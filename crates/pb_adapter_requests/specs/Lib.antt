pub mod Breakpoints
pub mod Counting
pub mod Kinds
pub mod Requests
pub mod Responses
