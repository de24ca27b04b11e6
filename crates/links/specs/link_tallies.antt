pub mod Tallies
pub mod Tied
pub mod inside
