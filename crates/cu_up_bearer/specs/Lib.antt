pub mod tunnels
pub mod downlink
pub mod bearers
pub mod orders
