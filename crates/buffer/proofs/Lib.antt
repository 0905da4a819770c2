-- What the proofs of several functions, and the crates above, use.
pub mod Put
pub mod Words
