pub mod Quiet
pub mod Dus
pub mod Cores
pub mod Received
pub mod Rest
