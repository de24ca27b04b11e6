pub mod Ups
pub mod Takes
pub mod Dus
pub mod Ues
