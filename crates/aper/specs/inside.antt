-- Internal: what ties the functions of the decoder together.
pub mod Printed
