pub mod run_switches
pub mod tunnel_numbers
