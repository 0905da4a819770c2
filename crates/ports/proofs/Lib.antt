pub mod Looks
pub mod Sixteens
