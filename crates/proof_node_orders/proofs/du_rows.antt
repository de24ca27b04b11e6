pub mod Frames
pub mod Contexts
