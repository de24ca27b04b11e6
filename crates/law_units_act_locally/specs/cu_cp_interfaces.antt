pub mod Interfaces
pub mod Ledgers
