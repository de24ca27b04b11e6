pub mod SameBits
pub mod Octets
pub mod Newer
pub mod Older
