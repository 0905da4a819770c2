pub mod Lists
pub mod Blocks
pub mod Converted
