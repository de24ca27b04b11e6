pub mod Forms
pub mod Heavy
pub mod InModule
pub mod Puts
pub mod Lists
pub mod Elements
pub mod Turns
pub mod Decoding
