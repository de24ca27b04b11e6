pub mod Runs
pub mod Applied
pub mod Turned
pub mod Finished
pub mod Scripts
pub mod Whole
