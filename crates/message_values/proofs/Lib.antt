pub mod Shapes
pub mod Fits
