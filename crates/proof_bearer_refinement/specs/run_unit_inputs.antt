pub mod Happenings
pub mod Dus
pub mod Ups
pub mod Core
