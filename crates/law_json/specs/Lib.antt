pub mod rows
pub mod shown
