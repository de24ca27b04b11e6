pub mod Apart
pub mod Stands
pub mod Listed
pub mod Dus
