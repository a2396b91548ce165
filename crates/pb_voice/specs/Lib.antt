pub mod Held
pub mod Inputs
pub mod Laws
pub mod Pieces
pub mod Tellings
pub mod Texts
pub mod Voices
