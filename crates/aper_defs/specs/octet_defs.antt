pub mod SameValues
pub mod Octets
