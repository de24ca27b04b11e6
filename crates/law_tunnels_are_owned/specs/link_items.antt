pub mod Items
pub mod Octets
