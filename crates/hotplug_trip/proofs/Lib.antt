pub mod InWords
pub mod Trip
