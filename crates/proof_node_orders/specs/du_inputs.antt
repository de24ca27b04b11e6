pub mod Changes
pub mod Puts
