pub mod Puts
pub mod Worked
