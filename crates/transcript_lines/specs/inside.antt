-- Internal: how the words of a line are read.
pub mod Fields
pub mod ReadLine
