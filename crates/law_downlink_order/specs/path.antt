pub mod Paths
pub mod Steps
pub mod Words
pub mod Lossy
pub mod Shown
