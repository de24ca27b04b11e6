pub mod Keyed
pub mod Dus
pub mod UpBearers
pub mod CuUps
pub mod Terminals
