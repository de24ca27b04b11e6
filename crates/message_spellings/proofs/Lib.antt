pub mod Unspelled
pub mod Read
pub mod Somewhere
