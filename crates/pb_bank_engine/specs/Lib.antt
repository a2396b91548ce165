pub mod Forms
pub mod Sessions
pub mod Parts
