pub mod Each
pub mod Steps
pub mod Users
pub mod Nodes
pub mod Terminals
