pub mod Script
pub mod Ends
pub mod Generate
pub mod inside
