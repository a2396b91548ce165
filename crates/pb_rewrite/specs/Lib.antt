pub mod Found
pub mod Sound
pub mod Sources
pub mod Steps
pub mod View
