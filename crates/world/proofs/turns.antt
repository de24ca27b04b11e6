pub mod Lists
pub mod OnTunnels
pub mod Turned
pub mod Unconfirmed
