pub mod Passes
pub mod Takes
pub mod Confirms
