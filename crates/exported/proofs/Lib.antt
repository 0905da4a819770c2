-- The theorem, and what it stands on.
pub mod Words
pub mod Threaded
