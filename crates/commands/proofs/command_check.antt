pub mod Steps
pub mod Joining
pub mod Checked
pub mod Whole
pub mod Reported
