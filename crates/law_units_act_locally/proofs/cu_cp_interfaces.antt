pub mod Kept
mod Rows
pub mod CuCps
