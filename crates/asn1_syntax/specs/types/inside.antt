-- Internal: what the functions of the reader of types do. No definition of `asn1_defs` cites it.
pub mod Reading
pub mod Sizes
pub mod Members
pub mod Types
