pub mod Draining
pub mod Quiet
