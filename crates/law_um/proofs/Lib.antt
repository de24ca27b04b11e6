pub mod Deliveries
mod Timers
pub mod Steps
pub mod Histories
