pub mod Measured
pub mod Heads
pub mod Order
