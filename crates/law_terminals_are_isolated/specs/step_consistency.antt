pub mod Places
pub mod EqualStates
