pub mod Numbered
pub mod Below
pub mod Known
pub mod Words
pub mod Said
pub mod Hovers
pub mod Hints
pub mod Answers
