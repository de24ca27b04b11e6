-- Internal: what ties the functions of a comparison together.
pub mod Same
