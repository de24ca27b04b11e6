pub mod Places
pub mod Judged
pub mod Runs
