pub mod Decoding
pub mod GPdus
pub mod Layouts
pub mod Links
pub mod read_defs
