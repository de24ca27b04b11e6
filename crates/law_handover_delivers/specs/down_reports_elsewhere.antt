pub mod Nodes
pub mod Assumed
