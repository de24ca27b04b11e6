pub mod Items
pub mod Receivers
pub mod Facts
pub mod Frames
pub mod Contexts
