pub mod Sensible
