pub mod Holding
pub mod Words
pub mod Simple
pub mod Sequences
