pub mod Lines
pub mod Units
pub mod Events
pub mod Wires
pub mod Runs
