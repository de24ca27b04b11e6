pub mod Scripts
pub mod Turned
pub mod Finished
pub mod Whole
