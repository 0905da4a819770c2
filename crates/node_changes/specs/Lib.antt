pub mod Changes
pub mod Lists
