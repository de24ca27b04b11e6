pub mod Runs
pub mod Start
pub mod Passed
