pub mod Offered
pub mod Polled
pub mod Tests
pub mod Standing
pub mod Uplink
