pub mod Radios
pub mod Tunnels
pub mod inside
pub mod link_tallies
pub mod links_bag
