pub mod Senders
pub mod Ups
