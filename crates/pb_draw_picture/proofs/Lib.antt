pub mod AxisLemmas
pub mod AxisSteps
pub mod KnotSteps
pub mod MarkPlaces
pub mod NameLemmas
pub mod RowLemmas
