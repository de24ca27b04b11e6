pub mod Entity
pub mod inside
