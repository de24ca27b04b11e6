pub mod Heads
pub mod Raw
