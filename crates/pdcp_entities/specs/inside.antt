pub mod Freeing
pub mod Rings
pub mod Views
