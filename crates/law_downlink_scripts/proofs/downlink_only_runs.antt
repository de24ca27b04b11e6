pub mod Places
pub mod Statics
pub mod First
pub mod Runs
