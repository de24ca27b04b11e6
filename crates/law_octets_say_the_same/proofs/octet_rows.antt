pub mod Answers
pub mod Ups
pub mod UpItems
pub mod UpReads
pub mod Dus
pub mod Ues
