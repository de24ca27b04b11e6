pub mod Opened
pub mod Ups
