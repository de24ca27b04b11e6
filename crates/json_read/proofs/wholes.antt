pub mod Demanded
pub mod Puts
pub mod Passed
