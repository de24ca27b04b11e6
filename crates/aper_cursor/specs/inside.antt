-- Internal: what ties the functions of a cursor together.
pub mod Places
