mod Sames
mod Steps
mod Events
mod Settling
mod Runs
pub mod Units
