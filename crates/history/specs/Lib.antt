pub mod Calls
pub mod Book
pub mod Holds
pub mod Refusals
