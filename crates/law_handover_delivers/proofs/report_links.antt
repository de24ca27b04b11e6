pub mod Stands
pub mod Airs
