pub mod Accepted
pub mod Compiled
pub mod Correct
pub mod Form
pub mod Numbered
pub mod SourceBehaviour
