pub mod Names
pub mod Named
mod Compare
mod Differ
mod Shuffles
