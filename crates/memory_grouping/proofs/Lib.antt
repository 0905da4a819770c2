pub mod Grouping
pub mod Answers
