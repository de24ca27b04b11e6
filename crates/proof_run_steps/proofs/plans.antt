pub mod Terminals
pub mod Frames
pub mod Runs
