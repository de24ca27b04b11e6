pub mod Names
pub mod CuCps
