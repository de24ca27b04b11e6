pub mod Quiet
pub mod ControlMessages
