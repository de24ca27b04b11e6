pub mod Forgotten
pub mod Same
pub mod Others
