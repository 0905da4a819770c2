pub mod Rebuild
pub mod Names
