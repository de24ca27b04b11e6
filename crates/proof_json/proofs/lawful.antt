pub mod Lists
pub mod Containers
pub mod Messages
pub mod Pdus
pub mod Law
