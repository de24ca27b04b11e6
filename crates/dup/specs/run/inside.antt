pub mod Views
pub mod Loops
