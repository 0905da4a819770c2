pub mod Words
pub mod Models
pub mod Orders
pub mod Seen
