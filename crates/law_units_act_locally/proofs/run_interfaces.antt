mod Turns
mod Units
mod Terminals
pub mod Runs
