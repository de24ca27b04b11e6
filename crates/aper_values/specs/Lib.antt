pub mod Views
pub mod types
