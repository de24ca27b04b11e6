pub mod Worlds
pub mod turns
pub mod radios
pub mod settling
