pub mod chain_defs
pub mod uplink_defs
