-- What the proofs of several functions, and the crates above, use.
pub mod Text
pub mod Nearer
pub mod Ends
