pub mod Spelt
pub mod Example
