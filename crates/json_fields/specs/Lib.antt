pub mod types
pub mod simple
pub mod parts
