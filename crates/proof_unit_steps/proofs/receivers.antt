pub mod Receivers
pub mod UpBearers
pub mod CuUps
pub mod Terminals
