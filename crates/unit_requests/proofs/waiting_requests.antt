pub mod Refilling
pub mod Releases
