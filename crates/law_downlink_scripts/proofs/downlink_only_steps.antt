pub mod Ups
pub mod GetUps
pub mod GetItems
pub mod Dus
pub mod Ues
