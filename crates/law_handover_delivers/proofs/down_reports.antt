pub mod Stands
pub mod Airs
pub mod Grows
