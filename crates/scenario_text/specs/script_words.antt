pub mod Forms
pub mod Ranges
pub mod Places
pub mod Answers
