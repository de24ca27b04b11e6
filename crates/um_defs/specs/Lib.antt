pub mod Receivers
pub mod um_run_defs
