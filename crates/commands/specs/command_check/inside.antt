-- Internal: what ties the functions of a check together.
pub mod Steps
