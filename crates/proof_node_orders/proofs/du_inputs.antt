pub mod Contexts
pub mod Frames
pub mod Control
pub mod Ups
