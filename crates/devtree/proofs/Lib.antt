-- What the proofs of several functions, and the crates above, use.
pub mod Tokens
pub mod Here
pub mod Tree
pub mod Names
