pub mod Predict
pub mod Decide
pub mod Makes
pub mod Steps
