pub mod ArmOrder
pub mod Ends
pub mod Lists
pub mod Loops
pub mod Parts
pub mod Programs
pub mod Statements
