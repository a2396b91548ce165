pub mod ReadyParts
pub mod ToldFaults
