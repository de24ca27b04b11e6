pub mod Ends
pub mod Puts
pub mod Heads
pub mod Takes
