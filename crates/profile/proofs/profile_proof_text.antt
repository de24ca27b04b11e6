pub mod Layers
pub mod Read
