pub mod Lists
pub mod Endings
pub mod Puts
pub mod Steps
pub mod Events
pub mod Statics
pub mod Runs
