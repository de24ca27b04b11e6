pub mod Tables
pub mod Runs
pub mod Dus
pub mod Ups
pub mod Core
