-- Internal: what is true of every value of the links.
pub mod Epochs
pub mod Kept
