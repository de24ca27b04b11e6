pub mod downlink_only_rows
pub mod delivers
pub mod run_delivers
pub mod packet_scripts
pub mod downlink_only_runs
pub mod downlink_only_counts
pub mod downlink_only_lines
