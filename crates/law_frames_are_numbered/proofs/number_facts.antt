pub mod Units
pub mod Links
pub mod Acts
pub mod Placed
