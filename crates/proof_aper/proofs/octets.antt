pub mod SameValues
pub mod Octets
pub mod Spelled
pub mod Bounded
