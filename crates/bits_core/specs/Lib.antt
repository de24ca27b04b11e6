pub mod Bits
pub mod Writing
pub mod Reading
