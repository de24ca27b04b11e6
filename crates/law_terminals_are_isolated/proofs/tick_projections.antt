pub mod Outputs
pub mod CuCps
pub mod Dus
