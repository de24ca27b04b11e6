-- Internal: what ties the steps from a text to a value together.
pub mod Answered
