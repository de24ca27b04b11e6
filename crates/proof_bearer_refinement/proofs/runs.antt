pub mod Fair
pub mod Ups
pub mod Rest
pub mod Runs
