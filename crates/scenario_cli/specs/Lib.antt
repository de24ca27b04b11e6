pub mod Gnb
pub mod inside
