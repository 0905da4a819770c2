pub mod Room
pub mod Bytes
pub mod Accepts
pub mod Steps
pub mod Portions
pub mod Reported
