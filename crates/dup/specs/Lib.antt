pub mod run
pub mod text
