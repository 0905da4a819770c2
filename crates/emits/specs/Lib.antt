pub mod Run
pub mod Emits
pub mod Good
