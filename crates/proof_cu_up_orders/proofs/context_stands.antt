pub mod Hops
pub mod Stands
pub mod Holds
pub mod Enough
