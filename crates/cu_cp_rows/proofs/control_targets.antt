pub mod Naming
pub mod Over
