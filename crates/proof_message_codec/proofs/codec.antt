pub mod Fields
pub mod Elements
pub mod FromValue
pub mod Ranges
pub mod Kept
pub mod Lawful
pub mod Spelled
