pub mod Shared
pub mod Paths
pub mod Nones
pub mod Statics
pub mod Others
pub mod Events
