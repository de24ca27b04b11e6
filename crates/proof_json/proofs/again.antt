pub mod Depth
pub mod Words
pub mod Apart
pub mod Nesting
pub mod Law
