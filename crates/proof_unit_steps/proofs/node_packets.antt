pub mod Terminals
pub mod Dus
pub mod Controls
