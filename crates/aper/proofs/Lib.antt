pub mod PathLemmas
pub mod Sets
pub mod Answered
