pub mod Handing
mod LineLemmas
mod LineReaderLemmas
pub mod LinesOf
mod MemoryLemmas
mod NextLemmas
mod Turns
