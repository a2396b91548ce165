pub mod Circles
pub mod Does
pub mod Faults
pub mod Reasons
pub mod Resources
pub mod Texts
