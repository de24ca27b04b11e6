pub mod Puts
pub mod Others
pub mod Radio
pub mod Control
pub mod Kept
