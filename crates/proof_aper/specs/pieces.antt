pub mod Onto
