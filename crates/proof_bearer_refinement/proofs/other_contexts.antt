pub mod Later
pub mod Orders
