pub mod LexicalLemmas
pub mod Longest
pub mod Gaps
pub mod Items
pub mod ItemsRead
pub mod Streams
