-- Internal.
pub mod Timed
pub mod Over
pub mod Verified
