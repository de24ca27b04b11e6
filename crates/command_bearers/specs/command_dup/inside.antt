-- Internal: what ties the word to the run of scripts.
pub mod Laws
pub mod Ran
