-- The theorems.
pub mod Faultless
pub mod Between
