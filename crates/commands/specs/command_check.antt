pub mod Check
pub mod Report
pub mod Whole
pub mod inside
