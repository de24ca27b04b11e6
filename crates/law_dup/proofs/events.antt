pub mod Lists
pub mod Deliveries
pub mod Numbering
pub mod Outcomes
pub mod Legs
pub mod Modes
