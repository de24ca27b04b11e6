pub mod Loops
pub mod ShapeLemmas
