pub mod ChangedLemmas
pub mod ChangingLemmas
pub mod LineLemmas
pub mod OrderLemmas
pub mod PartLemmas
pub mod PlanLemmas
pub mod TextLemmas
