pub mod Turns
pub mod Bodies
pub mod Elements
pub mod Parts
pub mod Wholes
