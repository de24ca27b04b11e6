pub mod bearers
pub mod orders
pub mod attaches
