pub mod Mirror
pub mod Steps
pub mod Runs
