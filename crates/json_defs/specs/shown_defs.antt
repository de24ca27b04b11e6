pub mod Printed
pub mod Names
pub mod Levels
pub mod Order
pub mod Alike
