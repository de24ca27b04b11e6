pub mod uplink
pub mod after_release
pub mod closing
