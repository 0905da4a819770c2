pub mod Scan
pub mod Lists
