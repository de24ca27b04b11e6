pub mod Forgotten
pub mod Bounded
pub mod Members
