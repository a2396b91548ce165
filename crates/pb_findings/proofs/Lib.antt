pub mod FileLemmas
pub mod ObjectLemmas
pub mod ReportLemmas
pub mod TellingLemmas
