-- Internal: what ties the functions of judging together.
pub mod Turns
