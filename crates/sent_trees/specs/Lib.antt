pub mod Trees
pub mod Cut
