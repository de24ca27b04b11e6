pub mod Following
pub mod Strings
pub mod Outside
pub mod widths
pub mod members
