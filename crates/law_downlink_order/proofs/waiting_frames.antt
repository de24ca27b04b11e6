pub mod Frames
pub mod Puts
