pub mod Allowed
pub mod Steps
pub mod Alive
pub mod AliveForms
