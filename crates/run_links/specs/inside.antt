-- Internal: what is true of what a run keeps.
pub mod Plans
