pub mod CallLemmas
pub mod ExplainedLemmas
pub mod JsonLemmas
