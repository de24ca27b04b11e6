pub mod IsPlayed
pub mod Assumed
pub mod Rows
