pub mod Turns
pub mod Onward
