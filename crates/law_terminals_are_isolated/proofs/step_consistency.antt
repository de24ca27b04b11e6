pub mod Beside
pub mod Steps
pub mod Firsts
pub mod Units
