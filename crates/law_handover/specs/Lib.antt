pub mod Named
pub mod Stands
pub mod NoReturn
