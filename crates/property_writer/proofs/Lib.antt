pub mod Rows
pub mod Writer
