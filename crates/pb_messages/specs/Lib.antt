pub mod Details
pub mod LiveInputs
pub mod Messages
pub mod Said
