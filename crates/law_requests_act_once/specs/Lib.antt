pub mod channel
pub mod channel_rows
pub mod cu_cp_deadlines
pub mod cu_cp_offers
pub mod unit_setups
pub mod taken_requests
pub mod run_channels
