pub mod Same
pub mod Bearers
pub mod Others
