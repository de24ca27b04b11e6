pub mod Contexts
pub mod Rows
pub mod Released
