pub mod Frames
pub mod Rows
pub mod Carried
pub mod Steps
