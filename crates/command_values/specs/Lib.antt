pub mod Answers
pub mod Ends
pub mod Values
pub mod Whole
pub mod inside
