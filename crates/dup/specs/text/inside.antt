-- Internal.
pub mod Fronts
