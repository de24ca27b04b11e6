pub mod Own
pub mod Example
