pub mod Worlds
pub mod inside
