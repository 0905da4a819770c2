-- What the proofs of several functions, and the crates above, use.
pub mod Look
pub mod Finding
pub mod Own
