pub mod Plans
pub mod Delivers
