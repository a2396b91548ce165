pub mod CountedPicks
pub mod NumberedBundles
pub mod Positions
pub mod SilentLooks
pub mod SpanEnds
pub mod SpanEvents
pub mod SpansOfEntries
pub mod TraceSteps
