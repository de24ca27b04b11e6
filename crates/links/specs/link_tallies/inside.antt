-- Internal: what is true of every value of the tallies.
pub mod Sound
