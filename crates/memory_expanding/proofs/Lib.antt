pub mod Expanding
pub mod Answers
