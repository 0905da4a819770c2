-- What the proofs of several functions, and the crates above, use.
pub mod Rows
pub mod Cells
pub mod Refine
pub mod Columns
