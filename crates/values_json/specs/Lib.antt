pub mod Texts
pub mod inside
pub mod tokens
pub mod pieces
pub mod order
pub mod printing
