pub mod local_packets
pub mod local_lengths
pub mod local
pub mod cu_cp_interfaces
pub mod run_interfaces
pub mod local_interfaces
