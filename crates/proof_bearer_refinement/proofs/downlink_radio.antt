pub mod Waits
pub mod Others
pub mod Terminals
