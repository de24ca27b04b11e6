pub mod Kept
pub mod Rows
pub mod Answers
pub mod CuCps
pub mod Cores
