pub mod EqualStates
pub mod Acts
pub mod Lives
