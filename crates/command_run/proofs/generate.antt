pub mod Passed
pub mod Applied
pub mod Turned
pub mod Ended
pub mod Wrote
