pub mod EpochLemmas
pub mod KeptLemmas
pub mod RadioLemmas
