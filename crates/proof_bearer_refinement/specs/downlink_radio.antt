pub mod Received
pub mod Down
