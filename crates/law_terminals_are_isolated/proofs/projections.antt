pub mod Answers
pub mod Tables
pub mod EqualStates
pub mod Apart
pub mod Cores
