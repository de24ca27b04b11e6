-- Internal: what ties the functions together.
pub mod Spelled
