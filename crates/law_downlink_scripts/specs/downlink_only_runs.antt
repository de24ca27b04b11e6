pub mod Scripts
pub mod Worked
