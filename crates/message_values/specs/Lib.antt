pub mod Elements
pub mod Parts
pub mod Written
pub mod Fitting
pub mod Reading
