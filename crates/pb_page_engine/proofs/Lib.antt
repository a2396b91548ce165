pub mod StatesLemmas
pub mod SchedulesLemmas
