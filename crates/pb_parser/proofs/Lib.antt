pub mod Depths
pub mod MeasureSteps
pub mod NestingLaws
pub mod Vectors
pub mod Wholes
