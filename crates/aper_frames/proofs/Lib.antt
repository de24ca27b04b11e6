pub mod Before
pub mod Skipped
pub mod Opened
pub mod Ways
pub mod Onward
pub mod Lighter
