pub mod Answers
pub mod Keyed
pub mod UpBearers
pub mod CuUps
