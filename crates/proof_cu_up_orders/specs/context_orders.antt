pub mod Orders
pub mod Inputs
pub mod Shown
