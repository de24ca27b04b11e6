pub mod Deliveries
pub mod Forwards
