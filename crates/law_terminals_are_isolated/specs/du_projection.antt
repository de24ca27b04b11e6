pub mod Dus
