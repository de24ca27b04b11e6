pub mod Paths
pub mod Worked
