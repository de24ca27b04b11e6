pub mod ue_bearers
pub mod ue_packets
