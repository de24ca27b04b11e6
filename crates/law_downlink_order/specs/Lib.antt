pub mod chain
pub mod path
pub mod lossy_chain
pub mod received_packets
pub mod waiting_frames
pub mod sent_frames
