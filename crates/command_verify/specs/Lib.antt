pub mod Ends
pub mod Verify
pub mod Whole
pub mod inside
