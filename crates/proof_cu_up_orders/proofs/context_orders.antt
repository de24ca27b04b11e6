pub mod Others
pub mod Bearers
pub mod Nothing
