pub mod Leading
pub mod Members
pub mod Heads
pub mod Sequences
pub mod Containers
pub mod Simple
pub mod Endings
pub mod Beginnings
