pub mod Same
pub mod Others
