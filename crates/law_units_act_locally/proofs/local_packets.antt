pub mod Lines
pub mod Settled
pub mod Known
pub mod Steps
pub mod Runs
