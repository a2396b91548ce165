pub mod AloneLemmas
pub mod DialectLemmas
pub mod FormLemmas
pub mod LineLemmas
pub mod LiveLemmas
pub mod ReplyLemmas
