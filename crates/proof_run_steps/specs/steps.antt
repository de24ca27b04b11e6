pub mod Causes
pub mod IsOutcome
pub mod Reached
