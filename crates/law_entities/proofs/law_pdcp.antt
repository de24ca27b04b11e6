pub mod Confirming
pub mod Delivering
