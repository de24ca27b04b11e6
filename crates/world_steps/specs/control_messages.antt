pub mod ControlMessages
pub mod Turns
