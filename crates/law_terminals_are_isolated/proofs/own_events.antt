pub mod Passed
pub mod Leaves
