pub mod pieces
pub mod followed
