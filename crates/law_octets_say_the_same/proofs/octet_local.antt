pub mod Retold
pub mod Runs
