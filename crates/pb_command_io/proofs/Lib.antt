pub mod InputLemmas
pub mod PageLemmas
