pub mod Counting
pub mod Contexts
pub mod CuUps
