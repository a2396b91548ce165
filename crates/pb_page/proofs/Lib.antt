pub mod PartsMore
pub mod RunSteps
