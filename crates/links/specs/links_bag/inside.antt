-- Internal: what is true of every bag.
pub mod Messages
