pub mod Core
pub mod Worked
