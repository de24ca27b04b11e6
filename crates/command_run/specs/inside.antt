-- Internal: what ties the functions of a run together.
pub mod Turns
pub mod Stops
