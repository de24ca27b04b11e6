pub mod Strings
pub mod Taken
