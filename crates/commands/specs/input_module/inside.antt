-- Internal: what ties the functions together that take a module.
pub mod Steps
