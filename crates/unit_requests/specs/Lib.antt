pub mod Requests
pub mod setup_requests
