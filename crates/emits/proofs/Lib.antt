-- The theorem, and what the crates above use.
pub mod Fours
pub mod Good
pub mod Ordered
pub mod Counts
pub mod Lands
pub mod Steps
pub mod Emits
pub mod Owned
