pub mod Quiet
pub mod Dus
pub mod Cores
