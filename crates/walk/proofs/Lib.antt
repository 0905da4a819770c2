-- What the proofs of several functions, and the crates above, use.
pub mod Area
pub mod Tests
pub mod Laws
pub mod Same
