pub mod Puts
pub mod Down
pub mod Up
