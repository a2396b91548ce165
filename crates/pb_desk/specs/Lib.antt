pub mod Applies
pub mod Entries
pub mod Journals
pub mod Notices
pub mod Refusals
pub mod Services
pub mod Sessions
