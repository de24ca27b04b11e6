pub mod Carried
pub mod Received
