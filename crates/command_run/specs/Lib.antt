pub mod Ends
pub mod Run
pub mod Whole
pub mod inside
pub mod generate
