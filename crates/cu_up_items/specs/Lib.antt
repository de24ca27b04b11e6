pub mod packets
pub mod uplinks
pub mod items
