pub mod Facts
pub mod Ups
pub mod Does
pub mod Gets
pub mod Airs
pub mod Acks
