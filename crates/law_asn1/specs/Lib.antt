pub mod text
pub mod names
pub mod depth
