pub mod Fields
pub mod Orders
pub mod Laws
