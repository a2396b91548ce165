pub mod Answers
pub mod Conversations
pub mod Documents
pub mod Founds
pub mod Messages
pub mod Methods
pub mod Params
pub mod Responses
