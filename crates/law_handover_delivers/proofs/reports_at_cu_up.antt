pub mod Assumed
