pub mod Senders
pub mod dup_run_defs
