pub mod Units
pub mod Steps
pub mod Runs
