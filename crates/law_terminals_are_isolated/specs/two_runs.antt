pub mod Acts
pub mod Example
