pub mod Ranges
pub mod Codecs
pub mod OctetCodecs
