pub mod BreakpointLemmas
pub mod FreeItems
