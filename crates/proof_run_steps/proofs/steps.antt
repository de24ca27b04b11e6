pub mod Steps
pub mod Events
pub mod Settling
pub mod Runs
pub mod Frames
