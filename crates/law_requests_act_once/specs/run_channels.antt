pub mod Example
pub mod Reached
