pub mod Entity
pub mod Stored
pub mod inside
