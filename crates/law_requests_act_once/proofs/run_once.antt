pub mod Asked
pub mod Joint
pub mod Passed
pub mod Steps
