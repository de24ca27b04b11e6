pub mod Scripts
pub mod rows
pub mod events
pub mod text
