pub mod ActionLemmas
pub mod FreeLemmas
pub mod TokenLemmas
