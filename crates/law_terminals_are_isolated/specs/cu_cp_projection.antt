pub mod CuCps
