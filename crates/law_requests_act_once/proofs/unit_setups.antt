pub mod Cores
pub mod CuUps
pub mod Dus
pub mod Growing
