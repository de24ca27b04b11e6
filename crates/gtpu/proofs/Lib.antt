pub mod Chains
pub mod Decided
pub mod Flags
pub mod Unique
pub mod Reading
pub mod Writing
