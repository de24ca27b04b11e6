pub mod Lines
pub mod Past
pub mod Packets
pub mod Rules
pub mod Sound
