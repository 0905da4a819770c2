pub mod Texts
pub mod Arrays
pub mod Trip
