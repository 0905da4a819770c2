pub mod Writer
pub mod Rows
