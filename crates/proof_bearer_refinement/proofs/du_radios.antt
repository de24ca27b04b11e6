pub mod Puts
pub mod Keeps
