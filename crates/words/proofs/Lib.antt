-- What the proofs of several functions, and the crates above, use.
pub mod Pick
pub mod Bytes
pub mod Parts
pub mod Run
pub mod First
mod Marks
pub mod Padding
