pub mod GraphLemmas
pub mod NumberLemmas
pub mod AmongLemmas
pub mod PathLemmas
pub mod LoopLemmas
