pub mod Codec
pub mod Writing
pub mod Reading
pub mod Units
pub mod Spelling
