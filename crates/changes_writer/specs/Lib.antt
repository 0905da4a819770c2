pub mod Writer
pub mod Plan
