pub mod Bearers
pub mod Rounds
