pub mod Lists
pub mod Dus
