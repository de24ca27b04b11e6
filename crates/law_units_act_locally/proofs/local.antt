pub mod Packets
pub mod Carries
pub mod Sized
pub mod Offers
pub mod Runs
pub mod Whole
