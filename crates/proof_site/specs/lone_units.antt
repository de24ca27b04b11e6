pub mod Lone
pub mod Orders
