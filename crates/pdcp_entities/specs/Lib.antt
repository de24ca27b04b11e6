pub mod Bits
pub mod Entities
pub mod Packets
pub mod inside
