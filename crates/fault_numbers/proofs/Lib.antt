-- What the crates above use.
pub mod Laws
