pub mod Closed
pub mod Steps
pub mod Leaves
pub mod Runs
