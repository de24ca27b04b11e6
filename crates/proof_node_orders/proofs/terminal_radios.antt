pub mod Puts
pub mod Moves
pub mod Table
