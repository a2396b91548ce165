pub mod Counted
pub mod Laws
pub mod PickLines
pub mod PickTexts
