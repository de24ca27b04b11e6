pub mod Ordered
pub mod Rounds
pub mod Matched
