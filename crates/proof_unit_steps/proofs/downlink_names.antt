pub mod Moves
pub mod Begins
pub mod Rows
pub mod Answers
pub mod CuCps
