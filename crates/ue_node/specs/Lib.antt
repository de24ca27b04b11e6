pub mod Nodes
pub mod inside
pub mod rows
