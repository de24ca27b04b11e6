pub mod Counts
pub mod Deciding
pub mod Verified
pub mod Wires
pub mod Worked
