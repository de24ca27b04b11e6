pub mod Records
pub mod Modes
