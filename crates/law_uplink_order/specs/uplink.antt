pub mod Words
pub mod Relay
