pub mod Reading
pub mod Sizes
pub mod Members
pub mod Shapes
pub mod Types
pub mod inside
