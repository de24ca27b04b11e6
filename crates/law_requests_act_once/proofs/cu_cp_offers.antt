pub mod Carried
pub mod Rows
pub mod Answers
pub mod Acts
