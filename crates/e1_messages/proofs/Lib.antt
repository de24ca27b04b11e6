pub mod Fits
pub mod InOrder
