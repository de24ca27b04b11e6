pub mod Stands
pub mod Holds
