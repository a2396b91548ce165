pub mod LiveLemmas
pub mod SaidLemmas
