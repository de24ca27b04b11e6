pub mod Counts
pub mod Senders
pub mod Receivers
pub mod pool_defs
