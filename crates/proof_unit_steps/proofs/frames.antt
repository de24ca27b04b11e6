pub mod Frames
pub mod Bearers
