pub mod EndLemmas
pub mod InputLemmas
pub mod LawLemmas
pub mod LineLemmas
pub mod ListLemmas
pub mod TellingLemmas
pub mod TextLemmas
pub mod VoiceLemmas
