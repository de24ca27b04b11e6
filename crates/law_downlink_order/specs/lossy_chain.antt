pub mod Both
pub mod Lossy
