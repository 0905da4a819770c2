-- The theorem, and what it stands on.
pub mod Stands
pub mod Others
pub mod Turns
pub mod Between
pub mod Rebuilds
