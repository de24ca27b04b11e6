pub mod Weights
pub mod Turns
