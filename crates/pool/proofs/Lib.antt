-- What the proofs of several functions, and the crates above, use.
pub mod Masks
pub mod Laws
pub mod Lines
