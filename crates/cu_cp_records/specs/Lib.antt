pub mod control_actions
pub mod control_requests
