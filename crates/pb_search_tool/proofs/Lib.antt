pub mod MessageLemmas
pub mod Notes
pub mod WordLemmas
