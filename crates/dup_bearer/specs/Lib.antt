pub mod Bearers
pub mod inside
pub mod dup_pdcp
pub mod legs
