pub mod types
pub mod assignments
