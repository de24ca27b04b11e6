-- Internal: what ties the functions of a generated run together.
pub mod Moments
pub mod Passing
