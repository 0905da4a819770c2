pub mod Compare
pub mod Lockstep
