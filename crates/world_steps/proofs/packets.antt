pub mod Aired
pub mod Got
