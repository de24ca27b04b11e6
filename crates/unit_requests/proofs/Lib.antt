pub mod Waits
pub mod Verdicts
pub mod Thens
pub mod WaitSteps
