pub mod Tokens
pub mod Tree
pub mod Names
pub mod Check
