pub mod Offered
pub mod Example
