pub mod Reader
pub mod Scan
