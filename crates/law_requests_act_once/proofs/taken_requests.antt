pub mod CuUps
