-- The theorem, and what it uses.
pub mod Blocks
pub mod Told
pub mod Accepts
pub mod Decode
pub mod ReadBack
pub mod Room
pub mod Once
pub mod Rebuilds
