pub mod Pick
pub mod Bytes
pub mod Run
pub mod First
