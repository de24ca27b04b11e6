pub mod Stored
pub mod Views
