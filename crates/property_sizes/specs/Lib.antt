pub mod Arrays
pub mod Sums
