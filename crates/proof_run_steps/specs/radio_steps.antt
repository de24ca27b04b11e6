pub mod Radios
