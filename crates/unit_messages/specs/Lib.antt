pub mod Messages
pub mod steps
