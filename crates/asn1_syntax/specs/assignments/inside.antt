-- Internal: what the functions of the reader of modules do. No definition of `asn1_defs` cites it.
pub mod Index
pub mod Rows
pub mod Sets
pub mod Module
