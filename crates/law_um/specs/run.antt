pub mod Reached
pub mod Gaps
pub mod Scripts
pub mod Taken
