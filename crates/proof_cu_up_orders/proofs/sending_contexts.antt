pub mod Lists
pub mod Facts
pub mod Ends
pub mod Beside
