pub mod Ends
pub mod Meaning
pub mod Run
pub mod Whole
pub mod inside
