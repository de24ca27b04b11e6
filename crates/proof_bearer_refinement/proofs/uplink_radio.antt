pub mod Lists
pub mod Puts
pub mod Taken
pub mod Terminals
pub mod Others
