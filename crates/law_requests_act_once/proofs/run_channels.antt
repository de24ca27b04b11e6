pub mod Exact
pub mod Nodes
pub mod Runs
pub mod Terminals
pub mod Reaches
