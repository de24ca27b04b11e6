-- Internal: what ties the functions of these words together.
pub mod Answered
pub mod Turns
pub mod Stops
