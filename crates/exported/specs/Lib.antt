pub mod Threaded
