pub mod Attach
pub mod Comes
pub mod Tells
pub mod Runs
