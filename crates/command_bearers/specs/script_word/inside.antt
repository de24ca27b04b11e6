-- Internal: what ties the functions of a script together.
pub mod Applied
pub mod Stops
pub mod Turns
