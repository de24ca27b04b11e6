pub mod Index
pub mod Rows
pub mod Module
pub mod inside
