pub mod Changes
pub mod Midway
pub mod Says
pub mod Rows
pub mod Answers
pub mod Acts
