pub mod Models
pub mod Orders
pub mod Shown
