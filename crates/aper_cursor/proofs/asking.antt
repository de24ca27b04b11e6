pub mod Onward
pub mod Bounds
