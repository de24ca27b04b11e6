pub mod Gets
pub mod Airs
pub mod Acks
pub mod Runs
