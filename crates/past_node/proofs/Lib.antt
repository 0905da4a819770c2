-- What the proofs of several functions, and the crates above, use.
pub mod Places
