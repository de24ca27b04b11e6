pub mod Answered
mod Waiting
pub mod Written
pub mod Turned
pub mod Finished
pub mod Texts
pub mod Whole
