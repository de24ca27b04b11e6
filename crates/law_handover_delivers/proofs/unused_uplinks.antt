pub mod Orders
pub mod Puts
pub mod Runs
pub mod Hops
pub mod Begun
