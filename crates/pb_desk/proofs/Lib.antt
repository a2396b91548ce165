pub mod Carried
pub mod FieldLemmas
pub mod JournalLemmas
pub mod KeptLemmas
pub mod LastRequests
pub mod NoticeLemmas
pub mod SessionPlaces
pub mod WordFronts
