pub mod Judgements
pub mod Faults
pub mod Parts
pub mod TypeBounds
pub mod ModuleBounds
