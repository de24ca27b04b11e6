-- Internal: what ties the functions of the decoder together.
pub mod Reading
pub mod States
