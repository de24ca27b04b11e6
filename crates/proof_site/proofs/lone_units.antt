pub mod Steps
pub mod Standing
pub mod UpBearers
pub mod CuUps
pub mod Dus
pub mod Terminals
pub mod CpSays
pub mod CuCps
