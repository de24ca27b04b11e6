pub mod Frames
pub mod Steps
pub mod Paths
pub mod Weights
pub mod heads
pub mod simple
pub mod aper_elements
