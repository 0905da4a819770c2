-- What the crates above use.
pub mod Places
pub mod Laws
