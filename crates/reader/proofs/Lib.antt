-- What the proofs of several functions, and the crates above, use.
pub mod Written
pub mod Taken
pub mod Laws
