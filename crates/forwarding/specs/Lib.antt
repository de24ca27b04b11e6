pub mod Answers
pub mod Sources
pub mod Targets
pub mod Relays
