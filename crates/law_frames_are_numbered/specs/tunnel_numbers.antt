pub mod Tunnels
pub mod Worked
