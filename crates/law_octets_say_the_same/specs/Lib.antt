pub mod octet_rows
pub mod octet_runs
pub mod units_follow
pub mod octet_facts
pub mod octet_downlink_only
pub mod octet_local
pub mod octet_downlink
