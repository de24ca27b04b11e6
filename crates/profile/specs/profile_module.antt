pub mod Profiles
pub mod inside
