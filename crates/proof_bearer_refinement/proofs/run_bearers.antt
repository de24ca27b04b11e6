pub mod Runs
pub mod Bearers
pub mod Numbers
