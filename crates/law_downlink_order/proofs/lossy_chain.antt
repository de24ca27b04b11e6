pub mod Receives
pub mod Moves
pub mod Runs
pub mod Lost
