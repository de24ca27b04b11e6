pub mod Grows
pub mod Ups
pub mod Rest
pub mod Runs
