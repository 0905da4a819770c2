pub mod Sets
pub mod Bytes
pub mod Trip
pub mod InNumbers
