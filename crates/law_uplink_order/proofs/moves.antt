pub mod Terminals
pub mod Moves
pub mod Arrivals
