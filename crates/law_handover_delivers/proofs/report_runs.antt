pub mod Rest
pub mod Knows
pub mod Runs
