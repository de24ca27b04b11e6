pub mod Questions
pub mod Rows
pub mod Answers
pub mod Spans
pub mod inside
pub mod asking
pub mod strings
