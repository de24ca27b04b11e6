pub mod Again
pub mod Answered
pub mod Shown
