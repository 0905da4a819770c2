pub mod Fits
pub mod Back
pub mod Trip
