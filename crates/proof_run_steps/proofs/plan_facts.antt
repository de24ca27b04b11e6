pub mod Along
pub mod Constant
