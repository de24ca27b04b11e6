pub mod Lines
pub mod Receivers
pub mod Units
pub mod Runs
