pub mod Names
pub mod UpBearers
pub mod CuUps
pub mod Dus
pub mod Terminals
pub mod CuCps
pub mod Octets
pub mod Links
