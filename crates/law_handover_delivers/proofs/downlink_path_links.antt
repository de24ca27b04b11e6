pub mod Tunnels
pub mod Homes
pub mod Airs
