pub mod CountedOnce
pub mod Counts
pub mod Numbers
pub mod PickParts
pub mod PickSpellings
