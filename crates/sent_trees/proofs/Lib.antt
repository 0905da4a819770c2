-- The theorems, and what the crates above use.
pub mod Events
pub mod Seen
pub mod Moved
pub mod Kept
pub mod Cut
